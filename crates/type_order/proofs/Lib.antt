pub mod ComingLaws
