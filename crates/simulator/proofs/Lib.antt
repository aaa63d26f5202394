pub mod Endings
pub mod Reruns
pub mod Alone
pub mod Refusals
pub mod Calls
mod Parts
