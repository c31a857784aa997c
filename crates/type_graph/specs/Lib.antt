pub mod Shapes
pub mod Arena
pub mod Renaming
pub mod Growth
pub mod Layouts
pub mod Linked
pub mod Kept
