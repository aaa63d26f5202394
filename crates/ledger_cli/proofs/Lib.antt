pub mod Lines
pub mod Telling
pub mod Usage
pub mod Verdicts
pub mod Beginning
pub mod Opened
pub mod Leaving
