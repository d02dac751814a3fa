pub mod Ascending
pub mod Changes
mod Listed
pub mod Locators
pub mod Saves
pub mod Tokens
