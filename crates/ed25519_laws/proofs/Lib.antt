mod Equations
mod Agreeing
mod Uniqueness
mod SmallOrders
mod Seeds
mod Encodings
mod Doublings
mod Eight
