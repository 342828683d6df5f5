-- what reading a line promises
pub mod Reads
-- what only the steps of the code are about: no other crate names it
pub mod Code
