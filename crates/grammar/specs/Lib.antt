pub mod Spelling
pub mod Reading
pub mod Reads
pub mod Table
pub mod Laws
