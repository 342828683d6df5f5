-- signals: bit i of a state is signal i
pub mod Signal
-- what only the steps of the code are about: no other crate names it
pub mod Code
