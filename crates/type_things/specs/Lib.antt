pub mod Things
pub mod Heads
pub mod Webs
pub mod Stems
pub mod Units
pub mod Weaving
