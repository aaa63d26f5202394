pub mod Starting
pub mod Front
pub mod Reach
pub mod Lent
