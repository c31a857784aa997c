pub mod ConstantLaws
pub mod NormalLaws
pub mod StepLaws
pub mod TypeLists
pub mod MemberLists
pub mod QualifiedLaws
