-- the search for the next record: it finds one if one waits, and brings every other nearer
pub mod Rotation
-- the search as the code makes it
mod Search
-- what is known where no row of refusals fits
pub mod Fits
-- what the parts of the calls answer, put together
mod Answers
-- the words of one record among those of all
pub mod Parts
-- what is known where a call is accepted, and what its effect then is
pub mod Accepted
-- the calls over the whole list
pub mod Whole
-- whoever waits is served in time, and lists of calls cut at a call
pub mod Fair
-- the blocks served are those left, and what nobody writes stays
pub mod Left
-- what is claimed of every list of calls
pub mod Claim
