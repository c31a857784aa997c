pub mod Cases
pub mod Switches
