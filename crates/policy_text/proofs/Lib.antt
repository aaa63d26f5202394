pub mod Shortest
