-- what a byte does to the fate of a line
pub mod Laws
-- what the parts of a line that hold no formula do to it
pub mod Leaves
-- the tape of nodes
pub mod Tapes
-- the ring of prefixes
mod Ring
-- what each return of the readers promises
mod Readers
-- what the returns of `line` promise
mod Lines
-- what reading a line comes to, by the grammar
pub mod Promise
