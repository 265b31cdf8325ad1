pub mod Record
pub mod Checker
pub mod RecordCases
