pub mod Summary
pub mod AddedLine
pub mod SummaryCases
pub mod InTables
