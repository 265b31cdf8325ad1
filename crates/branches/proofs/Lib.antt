pub mod Fits
pub mod PairCount
