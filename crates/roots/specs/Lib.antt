pub mod Guards
pub mod Roots
