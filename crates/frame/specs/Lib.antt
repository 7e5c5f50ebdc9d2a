pub mod Cases
pub mod Makings
pub mod Openings
pub mod Parts
pub mod Requests
pub mod Writing
