pub mod Pairs
pub mod Spoilers
