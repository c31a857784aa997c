pub mod Parameters
pub mod Reflexive
pub mod Composing
pub mod PairLaws
pub mod Idempotent
pub mod PartLaws
