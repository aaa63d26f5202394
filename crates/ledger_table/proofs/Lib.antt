mod Rows
pub mod Nesting
