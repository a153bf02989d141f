pub mod Phase
pub mod Truth
