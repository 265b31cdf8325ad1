pub mod Parsers
pub mod ReadBack
pub mod WrittenBack
