-- the outcome that each call notes
pub mod Noted
-- lists of session calls and writes
pub mod Lists
-- what only the steps of the code are about: no other crate names it
pub mod Code
