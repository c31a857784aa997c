pub mod InOrder
pub mod Links
pub mod Named
pub mod OneUnit
pub mod Places
pub mod Texts
