pub mod Blocks
pub mod SlotLaws
pub mod MaskLaws
pub mod DueLaws
pub mod TableSlots
pub mod ActiveSlots
pub mod GuardSlots
