pub mod Puts
pub mod Appends
