pub mod Tokens
pub mod NumberList
pub mod ListCases
