-- how far one bad reading reaches: answers and refusals
pub mod Reach
-- what a caller relies on
pub mod Promise
-- what only the steps of the code are about: no other crate names it
pub mod Code
