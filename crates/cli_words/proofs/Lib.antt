pub mod Behind
pub mod Words
pub mod Parts
pub mod Reading
pub mod Rows
