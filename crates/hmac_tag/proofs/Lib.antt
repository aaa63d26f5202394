pub mod Masks
pub mod Keys
pub mod Differences
