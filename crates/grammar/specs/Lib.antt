-- the lines of request A2, and what a fault of syntax says
pub mod Grammar
-- the reading of a line byte by byte
pub mod Machine
-- one reading as the image of another
pub mod Images
-- the nodes of a line in table order
pub mod Made
-- the tape of nodes that the readers build
pub mod Tape
