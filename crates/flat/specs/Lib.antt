-- a table as bytes
pub mod Flat
-- a session as bytes
pub mod Sessions
