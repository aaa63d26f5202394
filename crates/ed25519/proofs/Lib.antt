pub mod Scalars
pub mod Halves
