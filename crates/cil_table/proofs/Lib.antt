pub mod PartLaws
pub mod EntryLaws
pub mod Tables
