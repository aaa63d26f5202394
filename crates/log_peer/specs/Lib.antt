pub mod Refusals
pub mod Storing
pub mod Holding
pub mod Peering
pub mod Opening
