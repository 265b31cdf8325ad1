pub mod CountLaws
pub mod Mapped
pub mod NumberLaws
pub mod Signed
