pub mod RefusalNumber
pub mod Execution
pub mod Answers
pub mod Success
