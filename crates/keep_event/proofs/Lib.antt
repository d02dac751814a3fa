pub mod Counters
mod Plans
