pub mod Table
pub mod Tag
pub mod Chain
pub mod Plain
pub mod Examples
