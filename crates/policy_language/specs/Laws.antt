-- No definitions: laws that crates above cite.
pub mod Smaller
