-- what is told of a text that is refused
pub mod Message
-- what only the steps of the code are about: no other crate names it
pub mod Code
