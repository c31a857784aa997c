pub mod BelowLaws
pub mod ReadLaws
