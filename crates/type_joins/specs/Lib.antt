pub mod Forests
pub mod Joined
