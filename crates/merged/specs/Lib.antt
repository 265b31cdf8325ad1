pub mod Merge
pub mod PartsOf
pub mod MergeCases
