mod OneQuestion
mod OrgLists
mod Placing
mod FirstBlock
mod Refusals
mod AnswerDepths
mod AnswerFloats
mod Absent
mod Given
mod Stood
pub mod FromChain
