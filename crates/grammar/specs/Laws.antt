-- No definitions: laws that crates above cite.
pub mod Steps
pub mod Rows
pub mod Wholes
pub mod Loops
