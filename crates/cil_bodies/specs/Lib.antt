pub mod Bodies
pub mod Mapped
pub mod Maps
pub mod Retyped
pub mod Top
