pub mod LinkLaws
pub mod GroupLaws
pub mod LinkSteps
