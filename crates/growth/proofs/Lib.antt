pub mod Paths
pub mod Injective
pub mod Orbit
pub mod Grow
pub mod Growth
pub mod Plans
pub mod ClosedPlans
pub mod Rows
