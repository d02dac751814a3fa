pub mod Answers
pub mod Writable
