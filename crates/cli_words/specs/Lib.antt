pub mod Commands
pub mod Table
pub mod UsageText
pub mod Words
