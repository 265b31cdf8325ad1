pub mod SearchAnswer
