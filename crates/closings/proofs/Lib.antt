pub mod TermClasses
pub mod UnlikeLaws
pub mod ClosingLaws
