pub mod Kept
pub mod Putting
pub mod Written
