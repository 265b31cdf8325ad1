pub mod TermValues
pub mod ValuesObey
pub mod ClosedDead
