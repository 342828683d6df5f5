-- sessions and acts, abstract in what a session has inside
pub mod World
-- the claim's words for a list under one rule
pub mod Claim
-- lists of calls, and the claim for rules that change
pub mod Calls
-- the demand as one statement
pub mod Demand
-- lists without changes
pub mod WithoutChanges
-- formulas as a world, and a list worked by hand
pub mod Example
