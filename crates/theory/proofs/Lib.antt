pub mod Satisfiable
pub mod OpenLeaf
pub mod Theorems
