pub mod Held
pub mod Run
pub mod Full
pub mod Again
pub mod Examples
