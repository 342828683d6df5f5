-- runs of the reading over some bytes, and what they say of the fate of a line
pub mod Runs
-- what a byte does in each mode
pub mod Steps
-- every line of the grammar is accepted
pub mod Complete
-- every line that is accepted is of the grammar
pub mod Sound
-- a fault is told at the earliest place
pub mod Earliest
-- there is one earliest place
pub mod Unique
-- each line has one reading; accepted exactly; lines worked
pub mod Single
-- the fate in an image is the image of the fate
pub mod Images
-- a fault has number 32 or 33
pub mod Numbers
-- a line has one byte 10, its last; what stands before a fault of syntax has none
pub mod Ends
