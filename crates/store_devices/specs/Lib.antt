pub mod History
pub mod StoreFile
pub mod Places
pub mod Placed
pub mod Blocks
