pub mod TypeBytes
