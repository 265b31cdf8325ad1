pub mod Corollaries
