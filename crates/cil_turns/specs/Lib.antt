pub mod Ends
pub mod Standing
pub mod Moving
pub mod Turning
