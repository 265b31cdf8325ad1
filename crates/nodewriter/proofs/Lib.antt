pub mod EntryBytes
pub mod WriteLaws
