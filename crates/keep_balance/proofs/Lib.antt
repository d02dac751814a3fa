mod Moves
mod Pages
mod Planned
pub mod Shown
