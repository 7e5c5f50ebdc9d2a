pub mod Builds
pub mod Fingerprints
pub mod Listings
pub mod Nestings
pub mod Questions
