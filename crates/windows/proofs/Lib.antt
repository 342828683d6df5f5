-- what doubling and widening ask of an operator, and the operators that have it
mod Laws
-- columns laid in several registers of one list
pub mod Lays
-- F, G and `whole` on one register
pub mod Windows
-- U and `wholeRelease` on two registers, by doubling
mod Untils
-- U, R and `wholeRelease` on three registers, part by part
mod Threes
-- the tests for unfit calls, and what a caller reads off the contracts
pub mod Results
