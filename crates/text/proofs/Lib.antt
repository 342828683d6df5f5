-- the nodes and the rule of a line, added to a table
mod Growing
-- the nodes of a line have the form of nodes
mod Forms
-- the tape read back, and the nodes that it holds
mod Decoded
-- whole lines that are taken are what the answer comes to
mod Runs
-- the lines of a text, one after the other
mod Reading
-- every answer is an outcome by the grammar
pub mod Outcomes
-- the table of an accepted text is sound
pub mod Sounds
-- the nodes of a formula, added to a table: taken exactly within the limits, and what they mean
mod Grows
-- a line, added to the table of the lines before it: taken exactly within the limits
mod Holds
-- the lines that are read are within the limits, and the table's rules are theirs
mod Means
-- no part of a formula waits longer than it did before A5
mod Sooner
-- a text is accepted exactly if its lines are of the grammar and within the limits
pub mod Exact
-- the numbers that a text is answered with
pub mod Numbers
-- a text has one outcome
pub mod Single
-- the rules of an accepted text's table have its lines' names and watch its lines' formulas
pub mod Watched
-- some texts worked
mod Examples
