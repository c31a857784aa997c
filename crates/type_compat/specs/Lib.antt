pub mod Measure
pub mod Compatible
pub mod Composed
pub mod Functions
pub mod Pairs
pub mod Parts
