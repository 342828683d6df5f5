-- a call on the session that bytes hold
mod Laws
-- what an answer tells by the number of each refusal
pub mod Said
-- the scheduler's calls: the work on what one pass has found
mod Scheduler
