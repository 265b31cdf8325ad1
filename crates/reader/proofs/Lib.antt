pub mod FileParts
pub mod ReaderLaws
pub mod TablesRead
