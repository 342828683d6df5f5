-- the bits of marks
pub mod Bits
-- the loop from the last node to the first
mod Marking
-- what is marked, and why: what callers use
pub mod Marked
