pub mod SpacedText
pub mod ReadBack
pub mod ReadPrograms
mod Rows
