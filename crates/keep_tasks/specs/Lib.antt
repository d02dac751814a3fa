pub mod Kinds
pub mod Openings
pub mod Running
pub mod Tables
pub mod Unsigned
pub mod Walks
