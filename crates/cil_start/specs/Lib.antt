pub mod Loads
pub mod Ready
pub mod Starts
pub mod Words
