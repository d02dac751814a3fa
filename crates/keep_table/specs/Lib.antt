pub mod Contents
pub mod Maps
pub mod Wants
