pub mod Asked
pub mod Changes
pub mod Ends
pub mod Firsts
pub mod Going
mod Made
pub mod Options
pub mod Refused
pub mod Routed
