pub mod Due
pub mod Entered
