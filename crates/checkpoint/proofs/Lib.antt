pub mod OneSpelling
pub mod Spans
pub mod Texts
pub mod Orders
pub mod Unique
pub mod SizedHashes
pub mod OneKept
