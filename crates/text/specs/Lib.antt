-- what typed lines yield, line by line and node by node
pub mod Typing
-- the texts that are accepted, by the grammar and the limits of books
pub mod Accepted
-- what reading a text comes to, by the grammar; what its table means
pub mod Outcome
-- what only the steps of the code are about: no other crate names it
pub mod Code
