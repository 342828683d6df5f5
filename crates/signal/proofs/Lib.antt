-- a word of a signal's column, gathered digit by digit from the states
mod Signals
