pub mod Written
pub mod Calls
pub mod Answers
pub mod Examples
