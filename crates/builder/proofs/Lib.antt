-- the answers of the code
pub mod Answers
-- the table that holds given nodes and rules: its delays, its names, and one more of each
pub mod Holding
-- a table that is built and has a rule is sound
pub mod Sound
-- adding over the delays of a table's nodes
pub mod Over
