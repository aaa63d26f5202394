pub mod Utf8
pub mod Items
pub mod Places
pub mod Fronts
