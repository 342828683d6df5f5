-- the bits of a byte, as the code takes them
pub mod Bits
-- the bytes after a call and after a write, from the steps of the code
pub mod Answers
-- the last and the first of a list, and what stands after the last that passes a test
pub mod Lists
-- the registers and their bytes
pub mod Bytes
-- the bytes by all that was done
pub mod History
