mod MaskLaws
pub mod SortLaws
