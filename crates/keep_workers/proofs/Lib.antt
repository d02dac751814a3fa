pub mod Empties
mod Moving
pub mod Pulls
pub mod Trashes
