pub mod Tokens
pub mod Standings
pub mod SignLemmas
pub mod NextLemmas
pub mod Loops
pub mod ListLoops
