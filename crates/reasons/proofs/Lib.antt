pub mod Tests
pub mod Constants
pub mod ReasonLaws
