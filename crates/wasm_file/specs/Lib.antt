pub mod Modules
pub mod Texts
