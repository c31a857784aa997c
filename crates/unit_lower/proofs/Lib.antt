pub mod ExternalLaws
