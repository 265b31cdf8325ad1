pub mod Joins
pub mod ReadsFollow
