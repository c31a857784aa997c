pub mod SyntaxLaws
pub mod FirstLaws
pub mod Acceptance
pub mod OneRefusal
mod Expected
mod Rows
mod ModelRows
mod Bytes
mod SyntaxRows
mod Joints
mod ApartRows
pub mod ApartLaws
mod TogetherRows
mod ExactRows
