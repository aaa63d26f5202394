-- No definitions: laws that crates above cite.
pub mod Leb
pub mod Names
