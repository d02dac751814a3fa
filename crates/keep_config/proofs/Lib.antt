pub mod Counts
pub mod Equality
pub mod Firsts
pub mod Members
pub mod Passing
pub mod Text
