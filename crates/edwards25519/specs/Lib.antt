pub mod Coordinates
pub mod Prepared
pub mod Comb
