pub mod Values
pub mod Statements
pub mod Runs
pub mod Laws
pub mod Units
pub mod Modes
