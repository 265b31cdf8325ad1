pub mod Linked
pub mod Codes
pub mod Corollaries
