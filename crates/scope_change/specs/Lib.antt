pub mod Change
pub mod Asked
