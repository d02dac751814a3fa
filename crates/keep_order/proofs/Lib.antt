pub mod ByWeight
pub mod Distinct
pub mod Lists
pub mod Sorted
