pub mod DrawnLaws
pub mod FillLaws
pub mod RowLaws
