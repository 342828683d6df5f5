-- what the public functions leave in their slices
pub mod Operators
