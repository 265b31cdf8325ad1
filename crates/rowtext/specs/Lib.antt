pub mod Arity
pub mod Rows
