pub mod WordsBack
pub mod TypesBack
pub mod DeclsBack
pub mod Clean
pub mod ExpsBack
pub mod Typed
pub mod Told
pub mod NumbersBack
pub mod InstrsBack
pub mod StmtsBack
pub mod ImagesBack
pub mod AggregatesBack
pub mod TypesSkipped
pub mod ObjectsBack
pub mod BodiesBack
pub mod TextBack
pub mod NamesThere
pub mod StmtsThere
pub mod Positive
pub mod ShapesThere
pub mod StandsThere
pub mod CastsThere
pub mod TypesThere
pub mod PartsAdded
pub mod ProgramThere
pub mod LinesClean
pub mod Cut
pub mod OneText
mod Enough
pub mod EnoughWhole
mod BodiesAlike
mod GlobalsAlike
mod NamesAlike
mod WellFormedAlike
pub mod Alike
pub mod TypedAlike
pub mod TextAlike
pub mod ReadTexts
mod Rows
