pub mod Draws
pub mod Units
