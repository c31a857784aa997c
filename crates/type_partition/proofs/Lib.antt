pub mod RoundLaws
pub mod KeyLaws
pub mod KeyEquality
pub mod RefineLaws
pub mod GatheredLaws
pub mod FoundLaws
pub mod GatherSteps
