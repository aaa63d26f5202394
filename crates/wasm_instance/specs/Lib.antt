pub mod State
pub mod Accesses
pub mod Segments
pub mod Front
pub mod LendingFront
pub mod Lending
pub mod FuncTypes
