pub mod ByColumns
pub mod Codes
pub mod SamePart
