pub mod Answers
pub mod Opens
mod Padding
mod Rows
mod Tables
pub mod Taking
pub mod Walking
