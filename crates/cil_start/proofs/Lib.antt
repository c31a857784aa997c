pub mod Alignments
pub mod Places
pub mod UnitLaws
pub mod Writings
pub mod WordLaws
pub mod ObjectLaws
pub mod StartLaws
