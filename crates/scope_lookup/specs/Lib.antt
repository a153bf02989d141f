pub mod Inside
pub mod Lookup
pub mod Marked
