pub mod Airs
pub mod Buffers
pub mod Joins
pub mod Sizes
pub mod Walks
