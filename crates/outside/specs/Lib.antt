pub mod Buffers
pub mod Counts
pub mod InMemory
pub mod Moves
pub mod Named
