pub mod Calendar
pub mod Dates
pub mod Instants
pub mod ListClocks
pub mod Readings
