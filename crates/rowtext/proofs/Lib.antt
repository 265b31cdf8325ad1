pub mod Arities
mod RowTexts
