pub mod TypeColumns
pub mod Finite
