pub mod Naming
pub mod Renumbered
pub mod Renaming
pub mod MergedRows
pub mod MergedFits
pub mod RowValues
pub mod PartHolds
pub mod Satisfied
