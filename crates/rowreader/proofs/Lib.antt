pub mod SameRows
pub mod Mapped
pub mod RowLaws
