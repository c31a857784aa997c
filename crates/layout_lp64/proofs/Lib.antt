pub mod CapLaws
pub mod AlignLaws
mod CompactLaws
mod EntryLaws
pub mod TableLaws
pub mod OffsetLaws
pub mod UpdateLaws
mod AggregateSizes
pub mod MemberRanges
pub mod RenamingLaws
