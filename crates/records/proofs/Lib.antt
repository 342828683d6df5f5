-- what one pass over a list finds, record by record
pub mod Lists
-- one record among all, after a count was changed
pub mod Changes
