-- what is written for a text, and what is relied on of it
pub mod Output
