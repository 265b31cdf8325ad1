pub mod TableLaws
pub mod FitLaws
pub mod RangeLaws
