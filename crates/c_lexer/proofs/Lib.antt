mod Rows
pub mod Interning
pub mod Cutting
pub mod Munch
pub mod Going
pub mod Bits
pub mod Parts
pub mod Suffixes
pub mod Sound
pub mod Complete
pub mod Longest
pub mod Answered
pub mod Refusals
