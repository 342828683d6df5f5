-- a row in two parts
pub mod Steps
