pub mod ConstantTests
pub mod ConstantSlots
