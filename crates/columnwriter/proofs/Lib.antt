pub mod EntryLaws
pub mod ColumnLaws
pub mod PutLaws
