pub mod BodyLaws
pub mod DefinitionLaws
pub mod Kept
pub mod MapLaws
pub mod Replaced
pub mod RetypedLaws
pub mod StatementLaws
pub mod TableLaws
