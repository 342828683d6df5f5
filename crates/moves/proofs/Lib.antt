-- words of a column moved down
mod Words
-- sweeps over a register with its column moved down
mod Sweeps
