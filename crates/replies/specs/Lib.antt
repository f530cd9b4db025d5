pub mod Replies
pub mod Trips
