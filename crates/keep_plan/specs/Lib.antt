pub mod Laws
pub mod Mentions
pub mod Decided
pub mod Drafted
pub mod Planned
