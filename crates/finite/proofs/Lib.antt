pub mod Walks
pub mod FlatTypes
pub mod FiniteLaws
