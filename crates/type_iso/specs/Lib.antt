pub mod Classes
pub mod Order
pub mod Ordering
pub mod Standing
pub mod Places
