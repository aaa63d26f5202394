mod Readings
mod Trapping
mod Dividing
