pub mod Layout
pub mod Trips
pub mod Netlist
pub mod Records
