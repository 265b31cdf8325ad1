pub mod Copying
pub mod CopiedFile
pub mod Taking
pub mod TakenFile
pub mod OneNumber
pub mod Theorems
pub mod Questions
