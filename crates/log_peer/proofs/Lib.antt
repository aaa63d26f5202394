pub mod Keeping
pub mod Stores
pub mod Peers
mod Opened
mod Joined
mod Given
