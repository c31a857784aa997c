pub mod Held
pub mod Following
pub mod HostAnswers
pub mod Fetching
