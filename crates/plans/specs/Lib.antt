pub mod Chosen
pub mod Fresh
pub mod Plans
