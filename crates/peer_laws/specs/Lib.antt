pub mod Acting
pub mod Together
