pub mod RowLaws
pub mod Midway
