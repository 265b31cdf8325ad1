pub mod ExplainLaws
pub mod Corollaries
