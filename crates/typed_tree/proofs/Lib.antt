pub mod Kept
pub mod StatementLaws
pub mod StatementsMade
pub mod UnitLaws
pub mod Views
