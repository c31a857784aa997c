pub mod SpelledTokens
pub mod Added
