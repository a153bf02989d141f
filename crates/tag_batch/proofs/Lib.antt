pub mod Over
pub mod Turns
pub mod Ends
pub mod Full
pub mod Examples
