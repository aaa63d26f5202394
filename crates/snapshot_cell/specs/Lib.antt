pub mod Rules
pub mod Lists
pub mod Knowing
pub mod Seats
pub mod Numbers
