pub mod Problem
pub mod Columns
