pub mod VariantReader
