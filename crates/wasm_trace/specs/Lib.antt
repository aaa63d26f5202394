pub mod Reduction
pub mod Context
pub mod Ending
pub mod Names
pub mod View
pub mod Calls
pub mod Standing
pub mod Plain
