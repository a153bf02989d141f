pub mod Laws
pub mod Texts
pub mod Examples
