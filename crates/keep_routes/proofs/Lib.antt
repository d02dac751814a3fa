pub mod Codes
pub mod Mounts
pub mod Times
