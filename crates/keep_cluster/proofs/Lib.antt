mod Counts
pub mod Devices
mod Replies
mod Worlds
