pub mod Arcs
pub mod Groups
pub mod Lowered
pub mod Marks
