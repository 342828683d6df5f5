-- two registers in one list, at 0 and at d
pub mod Pair
