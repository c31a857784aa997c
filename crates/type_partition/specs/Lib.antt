pub mod Partition
pub mod Rounds
pub mod Keys
pub mod Gathered
