pub mod Host
pub mod Counted
pub mod Laws
