pub mod Columns
pub mod ColumnCases
