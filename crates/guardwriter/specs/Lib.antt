pub mod GuardBytes
