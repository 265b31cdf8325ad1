pub mod CycleLaws
pub mod PartLaws
