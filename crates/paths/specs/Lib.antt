pub mod Arcs
pub mod Rows
pub mod Slowest
