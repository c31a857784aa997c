pub mod ImageLaws
pub mod SpotLaws
