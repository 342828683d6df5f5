-- what is known of a rule while its trace still grows: answers, refusals, and the scratch after a call
pub mod Early
-- what a caller relies on
pub mod Promise
-- what only the steps of the code are about: no other crate names it
pub mod Code
