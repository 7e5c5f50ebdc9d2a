pub mod Benches
pub mod Heard
pub mod Tables
