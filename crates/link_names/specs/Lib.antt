pub mod Linking
pub mod Grouping
pub mod Linked
