pub mod Declare
pub mod Texts
