-- what the public functions leave in their slices
pub mod Windows
-- what doubling and widening ask of an operator
pub mod Laws
-- what only the steps of the code are about: no other crate names it
pub mod Code
