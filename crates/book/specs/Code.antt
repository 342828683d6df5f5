-- the steps of the code: the state of its walk along the chain, and what each function does with it
pub mod Steps
