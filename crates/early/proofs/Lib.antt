-- the halves of a scratch: one lent as a part, or a column laid in one
mod Halves
-- the columns of a node are where its formula is known to be yes, and no
mod Nodes
-- what the operators of a node's kind leave in one half
mod ByKind
-- what a node's step leaves in both halves
mod Both
-- the columns of the nodes, one after the other
mod Runs
-- the number of a call, and what it answers
mod Answers
-- what a caller relies on
pub mod Promise
-- values worked by hand
mod Examples
