pub mod Endorsing
pub mod Rechecks
