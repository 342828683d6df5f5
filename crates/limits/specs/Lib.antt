-- every limit and size by its name
pub mod Limits
