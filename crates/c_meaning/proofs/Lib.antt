mod Rows
pub mod Parsed
pub mod Terminals
pub mod Units
