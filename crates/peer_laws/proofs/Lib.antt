mod Calls
mod Lines
mod Machines
