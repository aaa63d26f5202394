pub mod Operators
pub mod Laws
