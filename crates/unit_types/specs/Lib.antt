pub mod Classes
pub mod Constants
pub mod Known
pub mod Normal
pub mod Steps
