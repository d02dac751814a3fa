pub mod Bodies
pub mod Paths
pub mod Responses
pub mod Routes
