pub mod Linking
pub mod Naming
pub mod Programs
pub mod Units
