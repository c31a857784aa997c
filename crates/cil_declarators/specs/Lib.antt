pub mod Gives
pub mod Fresh
pub mod Extends
pub mod Bases
pub mod Layers
