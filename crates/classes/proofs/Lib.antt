pub mod ClassLaws
pub mod First
