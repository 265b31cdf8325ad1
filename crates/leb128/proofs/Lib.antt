pub mod Count
pub mod Form
