pub mod Count
pub mod Output
