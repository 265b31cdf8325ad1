pub mod Loader
