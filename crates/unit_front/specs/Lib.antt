pub mod Refusals
pub mod Identifiers
