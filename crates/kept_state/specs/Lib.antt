pub mod Standing
pub mod Blocks
pub mod Asking
pub mod Keeping
