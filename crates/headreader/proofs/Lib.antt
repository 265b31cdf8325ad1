pub mod WithHead
pub mod HeadLaws
pub mod HeadFits
