pub mod Closed
pub mod NodeLaws
