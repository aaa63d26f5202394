pub mod Depths
pub mod Floats
mod Collecting
mod Written
mod LastAmendment
mod Stands
