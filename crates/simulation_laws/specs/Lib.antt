pub mod Changes
pub mod Fitting
pub mod Fitted
pub mod Kinds
pub mod Starts
