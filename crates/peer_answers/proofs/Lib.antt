pub mod Numerals
pub mod Rights
pub mod Known
pub mod Hashes
pub mod Sighted
pub mod Sharing
