pub mod Merging
pub mod Refusing
pub mod Listing
pub mod Classes
pub mod Merged
pub mod Numbering
