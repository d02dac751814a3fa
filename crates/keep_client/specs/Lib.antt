pub mod Exchanges
pub mod Saying
pub mod Asking
pub mod Answers
pub mod Scripted
pub mod Steps
pub mod Tallies
