-- effects by their number: a call whose number is 0 is accepted, and any other refused
pub mod Effects
-- history while it is renewed: its states are moved down, and the block's follow
mod History
-- what the parts of open, feed and close answer, put together
pub mod Answers
-- the session that a feed hands back, by what it answers without
pub mod Handed
