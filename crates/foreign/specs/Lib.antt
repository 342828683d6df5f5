-- calls of the C interface, and the third demand for them
pub mod Demand
-- early answers
pub mod Early
-- one bad reading
pub mod Reach
-- written books
pub mod Written
-- lists of calls of the scheduler over the bytes of a table
pub mod Scheduled
-- the status registers
pub mod Noted
