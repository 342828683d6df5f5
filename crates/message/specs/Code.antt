-- what was put, and how long it is at most
pub mod Steps
