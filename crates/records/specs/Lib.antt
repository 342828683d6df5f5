-- the list of records, and the list after a count of one was changed
pub mod Records
-- what one pass over the list finds
pub mod Reading
