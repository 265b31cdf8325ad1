pub mod UnlikeTests
pub mod UnlikeLaws
