pub mod Unheld
pub mod WorldLines
pub mod Seen
pub mod Judged
