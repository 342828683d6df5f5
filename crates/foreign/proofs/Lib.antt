-- the third demand for calls of the C interface
mod Demand
-- early answers
pub mod Early
-- one bad reading
pub mod Reach
-- written books
pub mod Written
-- lists of calls of the scheduler over the bytes of a table
pub mod Scheduled
-- lists of calls with the status registers beside them
pub mod Noted
