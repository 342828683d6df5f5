-- the column of a node is its formula's verdicts
mod Nodes
-- what the operator of a node's kind leaves is the node's step
mod ByKind
-- the columns of the nodes, one after the other
mod Runs
-- what the buffers hold in the end, when a call is ready, and its number
pub mod Answers
