pub mod Causes
pub mod Declaring
pub mod Files
pub mod Places
