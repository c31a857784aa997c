pub mod Entries
pub mod Courses
pub mod StepLaws
pub mod Switches
pub mod BodySteps
pub mod Walks
pub mod Labels
pub mod Leads
