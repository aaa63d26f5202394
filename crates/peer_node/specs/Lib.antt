pub mod Refusals
pub mod Seats
pub mod Writers
