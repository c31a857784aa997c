pub mod Fronts
pub mod Places
mod Rows
