pub mod Fits
pub mod OnlyOne
