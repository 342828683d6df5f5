-- no refusal has the number 0
pub mod Positive
