pub mod Adding
pub mod FactLists
