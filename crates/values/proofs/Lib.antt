pub mod Formed
pub mod Halves
pub mod ValueLaws
