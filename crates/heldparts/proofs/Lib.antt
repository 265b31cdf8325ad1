pub mod FromGuard
