mod Pieces
pub mod Walks
pub mod Filling
pub mod Lying
