pub mod Tests
pub mod InOrder
pub mod TermOrder
pub mod SplitLaws
