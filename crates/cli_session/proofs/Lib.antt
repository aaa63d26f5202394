pub mod Pieces
pub mod Printed
pub mod Steps
pub mod Several
pub mod Whole
pub mod Stored
pub mod Begun
mod Staying
