-- marks, and what is needed: what callers use
pub mod Marks
-- what only the steps of the code are about: no other crate names it
pub mod Code
