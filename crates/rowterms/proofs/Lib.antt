pub mod LoopLaws
pub mod ByteLaws
pub mod RowLaws
