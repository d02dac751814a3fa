pub mod Parsed
pub mod Shown
pub mod Texts
