pub mod Masks
pub mod Positions
pub mod Truth
pub mod Lines
