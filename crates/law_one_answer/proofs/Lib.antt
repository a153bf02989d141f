pub mod Ends
pub mod Tags
pub mod Pieces
pub mod Scopes
pub mod Exports
pub mod Forms
