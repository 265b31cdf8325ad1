pub mod Tree
pub mod Rule
