pub mod Outcomes
pub mod Loads
pub mod Running
pub mod Telling
