-- what the public functions answer, and leave in their buffers
pub mod Verdict
-- what only the steps of the code are about: no other crate names it
pub mod Code
