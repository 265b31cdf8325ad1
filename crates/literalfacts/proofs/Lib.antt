pub mod LiteralLaws
