pub mod Children
pub mod CheckLaws
