pub mod PartLaws
pub mod VariantLaws
pub mod BelowLaws
