pub mod Program
pub mod Text
pub mod Meaning
pub mod View
pub mod Spaced
pub mod Reading
