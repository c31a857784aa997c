pub mod Laws
pub mod GraphTypes
