pub mod Plain
pub mod ListReader
pub mod Written
