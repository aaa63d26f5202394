pub mod Rule
pub mod Limits
pub mod Judging
pub mod Amended
pub mod Owned
