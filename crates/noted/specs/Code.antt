-- what the private functions require
pub mod Steps
