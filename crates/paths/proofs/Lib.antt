pub mod Wired
pub mod Routes
pub mod Filling
pub mod Slow
