-- the step: what it leaves in its two buffers
mod Laws
-- the place of a fault of syntax is in the line at fault by the grammar
mod Places
-- what is relied on of the program
pub mod Promise
-- two texts worked
mod Examples
