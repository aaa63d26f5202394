pub mod Curve
pub mod Encoding
pub mod Extended
pub mod Inverses
pub mod Laws
