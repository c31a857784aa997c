pub mod Definers
pub mod Entities
pub mod MainGlobals
pub mod Mains
pub mod Meeting
pub mod Units
