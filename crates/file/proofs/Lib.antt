pub mod Rights
pub mod Rows
pub mod Files
pub mod Single
pub mod Turns
