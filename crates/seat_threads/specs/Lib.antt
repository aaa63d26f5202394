pub mod Chains
pub mod Desks
pub mod Refusals
pub mod Reports
pub mod Rounds
pub mod Work
