pub mod Choices
pub mod Bound
pub mod ByRule
pub mod Counted
