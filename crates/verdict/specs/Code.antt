-- the registers of the nodes, and what the steps on the way leave there
pub mod Steps
