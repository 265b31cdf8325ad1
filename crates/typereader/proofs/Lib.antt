pub mod Midway
pub mod Stored
pub mod Readers
pub mod TypeReaderLaws
