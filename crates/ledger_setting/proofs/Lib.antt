pub mod Judged
pub mod Written
pub mod Standing
pub mod Amended
pub mod Owned
pub mod Once
