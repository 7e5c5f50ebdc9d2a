pub mod Alike
pub mod Gaps
pub mod Marks
pub mod Masks
pub mod Names
pub mod Records
