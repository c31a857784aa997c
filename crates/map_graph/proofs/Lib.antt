pub mod MappedLaws
pub mod LayoutsMapped
