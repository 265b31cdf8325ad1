pub mod FreeLaws
pub mod StageLaws
