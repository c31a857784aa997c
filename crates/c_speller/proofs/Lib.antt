pub mod AddedLemmas
pub mod AddedLists
pub mod UnitLists
