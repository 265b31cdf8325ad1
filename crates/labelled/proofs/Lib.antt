pub mod Covering
pub mod Listing
