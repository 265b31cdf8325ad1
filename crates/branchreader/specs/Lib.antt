pub mod BranchReader
