pub mod Parts
pub mod Text
pub mod Batches
pub mod Pages
