pub mod Held
pub mod MergedBytes
pub mod ThreePuts
