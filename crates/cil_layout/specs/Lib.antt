pub mod Signs
pub mod Scan
