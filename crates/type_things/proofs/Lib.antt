pub mod NumberLaws
pub mod WebLaws
pub mod HeadLaws
pub mod StemLaws
pub mod WeaveLaws
pub mod WovenLaws
pub mod WovenSteps
