pub mod EntryLaws
pub mod Filled
pub mod Searches
