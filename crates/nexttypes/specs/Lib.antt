pub mod NextTypes
