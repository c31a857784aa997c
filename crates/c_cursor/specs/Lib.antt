pub mod Readers
pub mod Classes
pub mod Lexemes
pub mod Given
pub mod Telling
pub mod Literals
pub mod Steps
