pub mod Leaves
pub mod Refusals
pub mod Steps
pub mod DeadQuotes
pub mod Examples
