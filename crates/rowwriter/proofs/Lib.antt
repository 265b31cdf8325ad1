pub mod KindLaws
pub mod KeptLaws
pub mod Midway
