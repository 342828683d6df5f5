-- what the laws make of one node
pub mod Law
-- the two passes over arrays
pub mod Passes
-- what the passes build
pub mod Built
