pub mod Ordered
pub mod Parting
