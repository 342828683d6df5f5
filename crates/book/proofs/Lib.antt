-- tests from their parts; a length, a head and a kind that are right
mod Tests
-- a record tried: what the code answers
mod Steps
-- numbers among others, and what is collected along a chain
mod Among
-- a record has no fault exactly where it keeps the rules
mod Kept
-- the state of the code's walk, and the records that it passed
mod Stands
-- reading along the chain, step by step
mod Along
-- the loop along the chain
mod Going
-- a book is accepted exactly where it keeps the rules
mod Accepts
-- the table of an accepted book is sound
pub mod Sound
-- the bytes of a book that is made of records
mod Records
-- the laws of the writer
pub mod Writes
-- each sound table has a book
pub mod Complete
-- a written book is read back
pub mod Back
-- only what is read of a book matters
mod Chain
-- the reader before A11, when a name had one byte
mod OneByte
-- books and what reading them yields
mod Examples
