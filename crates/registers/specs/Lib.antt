-- what the sixteen bytes hold, and what one session call and one write do to them
pub mod Registers
-- the same by all that was done from the start on, and what is claimed of it
pub mod History
