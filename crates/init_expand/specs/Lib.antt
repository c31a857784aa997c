pub mod Images
pub mod Spots
