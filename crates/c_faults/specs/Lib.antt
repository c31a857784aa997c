pub mod Reading
pub mod Definitions
pub mod Acceptance
pub mod UnitTypes
pub mod Corresponding
pub mod FirstRefusal
pub mod Text
