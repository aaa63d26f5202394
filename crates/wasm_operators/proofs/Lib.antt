pub mod Rows
pub mod OperatorRows
