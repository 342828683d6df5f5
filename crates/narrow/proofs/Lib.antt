-- widening by its number
pub mod Widening
