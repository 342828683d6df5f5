-- which record is served next
pub mod Rotation
-- what the calls answer, and what they leave in the list and in the buffers
pub mod Scheduler
-- the same for what one pass over the list has found
pub mod Work
-- lists of calls
pub mod Calls
-- what is claimed of every list of calls
pub mod Claim
