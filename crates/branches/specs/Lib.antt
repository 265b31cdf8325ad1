pub mod Procedure
pub mod Verdicts
pub mod BranchCases
