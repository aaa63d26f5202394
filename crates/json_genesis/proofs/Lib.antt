pub mod Items
pub mod Refusals
pub mod Editions
pub mod NamedKeys
pub mod Whole
pub mod OfTexts
pub mod Opens
pub mod OneGenesis
