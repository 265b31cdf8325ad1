pub mod Buffers
pub mod Corollaries
pub mod Decided
