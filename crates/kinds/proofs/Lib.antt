pub mod KindLaws
pub mod SingleTests
