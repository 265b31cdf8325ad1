pub mod EntryLaws
pub mod RowEntries
pub mod SiblingLaws
pub mod ReadLaws
