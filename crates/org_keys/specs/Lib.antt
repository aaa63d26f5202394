pub mod TagKeys
pub mod Keys
pub mod Ledgers
pub mod Signers
