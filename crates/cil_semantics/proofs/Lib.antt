pub mod Samples
mod Rows
mod LinkRows
mod JumpRows
mod MemoryRows
mod ModelRows
pub mod Growth
pub mod Tameness
pub mod ProgramLaws
pub mod Quiet
pub mod ProgramUnits
pub mod Modes
pub mod Alone
mod UnitRows
