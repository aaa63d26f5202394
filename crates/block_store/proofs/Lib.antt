pub mod Slices
pub mod Fronts
pub mod Reading
pub mod Left
pub mod OneAnswer
pub mod Beginnings
pub mod EachStore
pub mod OneRecord
