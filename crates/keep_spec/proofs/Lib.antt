pub mod DigestText
pub mod Fronts
pub mod LocatorText
pub mod Mounted
pub mod NumberText
pub mod PortableText
pub mod TokenText
