pub mod Twos
pub mod Turns
