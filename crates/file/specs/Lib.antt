pub mod Faults
pub mod Stepping
pub mod Theorems
