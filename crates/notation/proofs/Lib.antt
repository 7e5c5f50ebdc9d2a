pub mod Capitals
pub mod Made
pub mod Parts
pub mod Shown
