pub mod Messages
pub mod Sent
