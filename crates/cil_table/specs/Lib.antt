pub mod Parts
pub mod Courses
pub mod Entries
