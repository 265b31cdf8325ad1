pub mod LiteralBytes
