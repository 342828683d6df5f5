-- the rows of refusals, and what adding a node or a rule answers
pub mod Adding
-- the table that holds given nodes and rules, and the tables that are built by adding
pub mod Built
