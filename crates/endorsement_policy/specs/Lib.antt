pub mod Faults
pub mod Installed
pub mod Listed
pub mod Membership
pub mod Endorsed
pub mod Judge
pub mod Shares
