pub mod AnyOrder
pub mod OrderCases
