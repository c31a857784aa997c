mod Rows
mod TypeRows
mod LineRows
mod TypesThere
pub mod Views
pub mod ShapeEquality
