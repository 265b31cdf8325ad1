pub mod Asking
pub mod Putting
pub mod PairLaws
pub mod Filling
pub mod Calls
pub mod Corollaries
