pub mod OneDeclaration
pub mod Fresh
pub mod Layout
