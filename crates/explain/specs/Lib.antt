pub mod Explains
pub mod ExplainCases
