pub mod Writer
pub mod Marking
