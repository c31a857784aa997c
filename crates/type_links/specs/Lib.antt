pub mod Links
pub mod Linking
