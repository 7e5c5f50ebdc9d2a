pub mod Besides
pub mod Joining
