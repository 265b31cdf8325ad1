pub mod RowLaws
pub mod KindLaws
