-- No definitions: laws that crates above cite.
pub mod Unfold
pub mod ExecutedFits
pub mod Loads
pub mod Sound
pub mod NeverStuck
pub mod Alike
