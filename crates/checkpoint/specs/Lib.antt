pub mod Within
pub mod Checkpoint
pub mod Hashing
