pub mod KeptLaws
pub mod FilingLaws
pub mod LocalLaws
pub mod EachLaws
pub mod BodyLaws
pub mod TagLaws
pub mod UnitLaws
