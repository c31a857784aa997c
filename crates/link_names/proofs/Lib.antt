pub mod GroupingLaws
pub mod GroupedLaws
pub mod DuplicateLaws
pub mod LinkingRows
