pub mod Arrays
pub mod Slots
