pub mod NameLemmas
pub mod CountLemmas
pub mod ArgumentLemmas
pub mod BelowLemmas
