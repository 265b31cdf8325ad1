pub mod EqualLaws
