pub mod OpenLaws
pub mod RowParts
pub mod FewRows
pub mod DrawLaws
pub mod PlaceLaws
pub mod LeafLaws
pub mod RowLaws
pub mod CallLaws
