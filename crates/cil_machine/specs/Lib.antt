pub mod Terms
pub mod Resolution
pub mod Typed
pub mod Instructions
pub mod Meant
