pub mod Code
pub mod Hosts
