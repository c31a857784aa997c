pub mod Behind
pub mod Exits
