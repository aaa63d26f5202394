pub mod Committing
pub mod Numbers
pub mod Peering
