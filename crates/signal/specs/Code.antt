-- a word put together from parts of it
pub mod Steps
