pub mod ClaimLaws
pub mod AcceptedDead
pub mod EntryBack
pub mod RecordAccepted
pub mod Depth
pub mod LowestClosing
pub mod ClaimsAgree
pub mod Theorems
