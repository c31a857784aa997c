pub mod Types
pub mod Conversions
pub mod Operators
pub mod Constants
pub mod Evaluation
pub mod Nodes
pub mod Constraints
