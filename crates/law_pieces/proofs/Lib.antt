pub mod Takes
pub mod Looks
pub mod Going
pub mod Theorem
pub mod Applied
