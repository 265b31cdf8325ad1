pub mod Rounds
pub mod Follows
