-- which places fit: the tests, and what they say
pub mod Fits
-- columns laid in registers that are lent as parts
mod Laws
-- U and R on registers that are lent as one part
mod Reaching
-- what lies around the registers of U and R
pub mod Worked
