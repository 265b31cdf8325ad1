pub mod Parsers
pub mod Midway
pub mod Stored
pub mod Readers
