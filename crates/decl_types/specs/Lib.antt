pub mod MadeNames
pub mod Refusals
pub mod Scopes
pub mod Stops
