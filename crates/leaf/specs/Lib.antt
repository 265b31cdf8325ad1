pub mod Leaf
pub mod Picture
pub mod Sheet
