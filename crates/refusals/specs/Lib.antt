-- the number of each refusal by its name
pub mod Numbers
-- the refusals' numbers, and those of answers
pub mod Refusals
