pub mod Likeness
pub mod Places
pub mod Sizes
