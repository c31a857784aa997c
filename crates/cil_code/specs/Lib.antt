pub mod Passing
pub mod Calling
pub mod Leading
pub mod Doing
pub mod Running
pub mod Taking
