-- the scan of one line
pub mod Steps
