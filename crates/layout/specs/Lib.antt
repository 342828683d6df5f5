-- where the registers lie in a scratch, and what a step at a node leaves there
pub mod Layout
