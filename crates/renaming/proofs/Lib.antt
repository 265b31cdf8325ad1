pub mod HeldWalk
pub mod Padded
pub mod Prefixes
pub mod Variables
pub mod Walk
