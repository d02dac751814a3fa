pub mod Cluster
pub mod Asked
