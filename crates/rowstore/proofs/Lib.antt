pub mod Numbers
pub mod StoreLaws
pub mod RowLaws
