pub mod Questions
pub mod Corollaries
