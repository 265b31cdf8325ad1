pub mod ListLaws
pub mod PairLaws
pub mod TextCases
