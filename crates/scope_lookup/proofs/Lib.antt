pub mod Laws
pub mod Padded
pub mod Numbers
pub mod Marked
pub mod Examples
