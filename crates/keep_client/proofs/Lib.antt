pub mod Asked
pub mod Ends
pub mod Heard
pub mod Paths
pub mod Told
