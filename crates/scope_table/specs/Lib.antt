pub mod Lists
pub mod Records
pub mod Table
pub mod Answer
pub mod Lent
