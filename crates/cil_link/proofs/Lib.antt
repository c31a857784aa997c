pub mod Definitions
pub mod Symbols
mod Rows
pub mod HostNames
pub mod Meeting
pub mod Programs
pub mod EntityLaws
pub mod UnitLaws
pub mod MainTypes
pub mod MainLaws
