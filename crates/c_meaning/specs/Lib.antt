pub mod SourceFile
pub mod Grammar
pub mod Meaning
pub mod View
pub mod Reading
