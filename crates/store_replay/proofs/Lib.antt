pub mod Flags
pub mod Pushed
pub mod Going
pub mod Counted
pub mod Lawful
pub mod RightTags
pub mod Recommitted
