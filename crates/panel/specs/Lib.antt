pub mod Listings
pub mod Shown
