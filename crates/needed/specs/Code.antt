-- the marks that the steps of the code add
pub mod Steps
