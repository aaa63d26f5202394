pub mod Committing
pub mod Refusing
pub mod Sending
