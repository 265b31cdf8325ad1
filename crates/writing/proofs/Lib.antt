pub mod Decimals
pub mod Writing
pub mod Signs
pub mod Partly
pub mod Wrote
