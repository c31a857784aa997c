pub mod Mapped
pub mod MappedAggregates
pub mod Steps
