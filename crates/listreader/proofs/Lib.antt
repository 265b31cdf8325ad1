pub mod Simulation
pub mod Simulated
pub mod PlainLaws
pub mod ListReaderLaws
