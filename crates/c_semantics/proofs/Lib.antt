mod Rows
mod Words
mod Highest
mod MoreRows
pub mod Matched
pub mod Nodes
pub mod ExpressionsMatch
pub mod Control
pub mod StatementsMatch
pub mod Tameness
pub mod UnitLaws
