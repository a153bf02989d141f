pub mod Paths
pub mod Truth
pub mod Examples
