pub mod LiteralLaws
pub mod LiteralReaderLaws
