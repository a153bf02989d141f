pub mod Split
pub mod Second
pub mod Reserved
pub mod Declares
pub mod Bind
pub mod Verdict
