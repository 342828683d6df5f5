-- words of columns: an operation on words is the operation on their columns, bit by bit
pub mod Words
-- registers of one list: what stands in one that was laid, and in every other
pub mod Registers
-- sweeps: a register's words are written one by one, from the first on
pub mod Sweeps
-- a part of a list that was lent, said of the whole list
pub mod Parts
