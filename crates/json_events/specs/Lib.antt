pub mod Refused
pub mod Spelling
pub mod Same
pub mod Bound
