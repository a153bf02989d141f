pub mod Split
pub mod Second
pub mod Declared
pub mod Verdicts
pub mod Examples
