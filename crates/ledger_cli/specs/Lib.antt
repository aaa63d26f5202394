pub mod Verdicts
pub mod Opening
pub mod Keys
pub mod Seats
pub mod Tasks
pub mod Ends
pub mod Leaving
