pub mod Capped
pub mod Placements
pub mod Entries
pub mod Compacts
pub mod Tables
pub mod Stops
