pub mod Empties
pub mod Pulls
pub mod Trashes
