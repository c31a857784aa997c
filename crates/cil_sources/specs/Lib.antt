pub mod Files
pub mod Units
pub mod Steps
