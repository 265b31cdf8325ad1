pub mod RootRecord
