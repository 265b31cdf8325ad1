pub mod Answers
pub mod TokenLaws
pub mod WriteLaws
pub mod Corollaries
