pub mod Replay
pub mod Lawful
pub mod Tags
pub mod Numbers
pub mod Recommitting
pub mod Replaying
