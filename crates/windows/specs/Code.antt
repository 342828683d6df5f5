-- what the steps of F, G, U and R leave in their registers
pub mod Steps
