pub mod ForestLaws
pub mod JoinedLaws
pub mod StepLaws
pub mod AgreeLaws
