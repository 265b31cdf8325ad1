pub mod Measure
pub mod ClosedState
pub mod Choices
pub mod VisitLaws
pub mod Decisions
