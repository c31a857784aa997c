pub mod Files
pub mod Filing
pub mod Within
pub mod Local
pub mod Tags
pub mod Tagging
pub mod Renamed
pub mod Unit
