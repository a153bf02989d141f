pub mod Turns
pub mod Lent
pub mod Among
pub mod Resolves
pub mod Numbers
pub mod Examples
