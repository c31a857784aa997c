pub mod StandingLaws
pub mod PlaceLaws
pub mod ClassLaws
pub mod OrderLaws
pub mod OrderSteps
