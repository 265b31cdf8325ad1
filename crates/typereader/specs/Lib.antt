pub mod TypeReader
