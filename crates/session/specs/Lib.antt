-- what open, feed, close and the second close answer, and what they leave in the buffers that they were lent (document 01, Session)
pub mod Session
-- what only the steps of the code are about: no other crate names it
pub mod Code
