pub mod ExtendsLaws
pub mod NumberingLaws
pub mod LayersLaws
pub mod AddedLaws
