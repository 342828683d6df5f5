-- the delay of a node by those of its operands
pub mod Steps
-- the laws of the measures
pub mod Laws
