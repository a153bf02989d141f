pub mod Damage
pub mod Stable
