-- registers: lists of words that hold a column of bits
pub mod Column
