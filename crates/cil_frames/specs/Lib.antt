pub mod Course
pub mod Kinds
pub mod Entering
pub mod Evaluating
pub mod Frames
pub mod Growing
pub mod Loaded
pub mod Keeping
