mod Bytes
pub mod Alone
mod Plain
mod Places
mod Halves
mod Items
mod Replies
mod Calls
mod Firsts
mod Behind
