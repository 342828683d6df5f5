-- what one act makes of the claim
mod Stream
-- effects by their number
mod Effects
-- every list keeps the claim
pub mod Listed
-- lists without changes
pub mod WithoutChanges
-- the list worked by hand
mod Example
