mod Rows
pub mod PartLemmas
pub mod ContentsLemmas
pub mod ScalarLemmas
pub mod ObjectLemmas
pub mod PlaceLemmas
pub mod SlotLemmas
pub mod DigitLemmas
pub mod FrameLemmas
pub mod NameLemmas
pub mod StoreLemmas
pub mod OperatorLemmas
pub mod BelowLemmas
pub mod AgainLemmas
