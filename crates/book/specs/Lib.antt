-- the records of a book, and the tests of one record by itself
pub mod Entries
-- what reading a book yields: the rows of refusals and the table
pub mod Reading
-- the rules that a book keeps, as statements
pub mod Keeps
-- the chain, and how far a book is read
pub mod Chain
-- the book of a table, and what writing it answers and leaves
pub mod Writing
-- what is relied on of writing: a written book is read back
pub mod Back
-- the reader before A11, when a name had one byte
pub mod OneByte
-- what only the steps of the code are about: no other crate names it
pub mod Code
