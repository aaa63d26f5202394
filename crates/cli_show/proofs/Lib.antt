pub mod Seen
pub mod Answering
pub mod Replays
pub mod Calls
pub mod Cuts
pub mod Behind
pub mod First
pub mod WriteLines
pub mod Read
mod MarkLines
mod PushedTexts
mod ShownLines
mod SoughtParts
mod Stored
mod Traces
