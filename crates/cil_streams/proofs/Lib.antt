pub mod HostRows
pub mod Means
pub mod Gets
pub mod Unread
pub mod Arms
pub mod Fetched
pub mod Starts
