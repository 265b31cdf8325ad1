pub mod Gives
pub mod RowNumbers
pub mod Cells
pub mod Inverse
pub mod Settles
pub mod SettledRows
