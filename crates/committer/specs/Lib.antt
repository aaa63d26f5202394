pub mod Fits
pub mod Numbers
pub mod Pushes
