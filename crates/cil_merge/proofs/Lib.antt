pub mod MergingLaws
pub mod GainLaws
pub mod ClassLaws
pub mod ListingLaws
