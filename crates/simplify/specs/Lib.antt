-- where a law fits a table: a constructor a law
pub mod Fits
-- what is promised of a simplified table (document 01, Simplifying)
pub mod Promise
-- what only the steps of the code are about: no other crate names it
pub mod Code
