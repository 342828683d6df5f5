-- the near distances of the nodes of a table
mod Nears
-- the number of a call, and what it answers
mod Answers
-- the ticks that a state reaches
mod Within
-- what a caller relies on
pub mod Promise
-- values worked by hand
mod Examples
