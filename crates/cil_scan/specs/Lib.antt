pub mod Said
pub mod Spelled
pub mod Lines
