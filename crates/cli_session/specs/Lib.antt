pub mod Reading
pub mod Replies
pub mod States
pub mod Stages
pub mod Running
pub mod Verdicts
pub mod Whole
pub mod Stored
