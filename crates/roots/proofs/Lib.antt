pub mod RootLaws
pub mod TablesRead
