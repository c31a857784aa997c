pub mod Looking
pub mod UnitRelations
pub mod DeclarationLaws
pub mod StatementHeads
pub mod ControlLaws
pub mod BlockLaws
pub mod StatementLaws
pub mod ExternalLaws
pub mod UnitLaws
mod UnitRows
pub mod OwnListLemmas
pub mod NextTokens
pub mod Lower
pub mod Kept
pub mod UnitWhole
pub mod BlockTrees
pub mod ExternalSteps
