-- the near distance of a node by those of its operands, and the number of a call by that for its rule
pub mod Steps
-- the laws of the near distance
pub mod Laws
