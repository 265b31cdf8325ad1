pub mod TypeLaws
pub mod CellLaws
pub mod ColumnLaws
