pub mod Within
pub mod WithinCases
