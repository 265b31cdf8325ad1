pub mod Marking
pub mod NeededLaws
