pub mod Expressions
pub mod Objects
pub mod Statements
pub mod Units
pub mod Walked
pub mod Text
