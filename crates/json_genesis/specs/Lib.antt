pub mod Numbers
pub mod Lists
pub mod Refused
pub mod Spelling
pub mod Opening
pub mod Fields
pub mod Settings
pub mod NoGenesis
