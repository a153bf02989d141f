pub mod Run
pub mod Follows
