pub mod LiteralReader
