pub mod Chain
pub mod Plain
