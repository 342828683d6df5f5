-- what widening answers
pub mod Narrow
