pub mod Forms
pub mod LineKinds
