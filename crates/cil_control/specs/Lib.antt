pub mod Remains
pub mod Flat
pub mod Courses
pub mod Leading
