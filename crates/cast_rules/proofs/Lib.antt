pub mod ArgumentLists
pub mod Assigned
pub mod BuiltTypes
pub mod Extending
pub mod Modifiable
pub mod Pointees
pub mod TypesThere
