pub mod Columns
pub mod Held
pub mod Lookups
pub mod TypesBack
