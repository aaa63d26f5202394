pub mod Ended
pub mod Continuations
pub mod Settings
pub mod Frames
pub mod Reading
pub mod Falling
pub mod Begins
