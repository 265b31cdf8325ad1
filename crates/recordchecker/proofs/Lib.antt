pub mod RootChecked
pub mod Corollaries
