pub mod Scopes
pub mod Undo
