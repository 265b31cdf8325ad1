pub mod ByTypes
pub mod RowParts
