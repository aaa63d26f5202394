pub mod Doubles
pub mod Points
pub mod Combs
pub mod Multiples
pub mod Preparing
pub mod Choosing
pub mod Rows
pub mod Digits
