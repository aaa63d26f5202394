mod Texts
mod Together
mod Forms
mod Memberships
pub mod Arguments
mod OneProposal
mod OneAction
