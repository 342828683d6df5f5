-- what an operator leaves is a step
pub mod Steps
-- columns of n bits, and F and U on them
pub mod Columns
-- what the operators ask for holds of a node that can be computed
pub mod Fitting
-- the registers of the nodes, one after the other
pub mod Runs
-- how many bits of a constant are set
pub mod Constants
