-- the marked rows, by computation
mod MarkedRows
-- sessions over tables as a world of crate acts
mod World
-- each call and list, seen there
mod Seen
-- lists of calls: the claim, the session, beginnings
pub mod Listed
-- lists begun narrow: at most one widening, and as if wide from the start
mod Widened
-- what an accepted read yields is sound
pub mod Sources
-- the third demand
pub mod ThirdDemand
-- lists before A5, ended by the second close
pub mod SecondClose
-- what is known while a session runs
pub mod Early
-- one bad reading
pub mod Reach
-- the rule that a session watches is the formula of its line
pub mod Typed
-- each record of the scheduler is a session of its own
pub mod Scheduled
-- lists of calls with the status registers beside them
pub mod Noted
