pub mod CountLaws
pub mod SameLines
pub mod BranchLaws
pub mod FileParts
pub mod ReaderLaws
pub mod TablesRead
