pub mod Views
pub mod CappedLemmas
pub mod UnitLemmas
pub mod ToldLemmas
pub mod PlaceLaws
mod Rows
mod ScopeRows
