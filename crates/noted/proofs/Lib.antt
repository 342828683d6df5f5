-- the first no, word by word
pub mod Scan
-- the place of the first no among verdicts
pub mod Places
-- the outcome of a call by the place of its first no
pub mod Outcomes
-- lists of session calls and writes
pub mod Lists
