pub mod Near
pub mod Walks
pub mod Good
pub mod Below
pub mod Parts
pub mod Steps
pub mod Turns
