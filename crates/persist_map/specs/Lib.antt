pub mod Entries
pub mod Pages
pub mod Search
pub mod Changes
