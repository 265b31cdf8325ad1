pub mod Drawn
pub mod OpenAnswer
