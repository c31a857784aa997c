pub mod FormLaws
pub mod LineKindLaws
