pub mod Lists
pub mod ShapeLaws
pub mod NodeEquality
mod ChainLaws
pub mod ArenaLaws
pub mod GrowthLaws
pub mod StepLaws
pub mod LayoutLaws
pub mod RenamingLaws
pub mod OffsetLaws
mod LayoutRows
pub mod NumberLaws
