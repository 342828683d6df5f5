-- each step of the program keeps what was shown right for what was read
pub mod Steps
-- document 01's own book and input, and what is printed for them
mod Example
