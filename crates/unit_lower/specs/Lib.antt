pub mod Externals
