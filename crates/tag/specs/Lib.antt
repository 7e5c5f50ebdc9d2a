pub mod Cases
pub mod FlagLaws
pub mod Frames
pub mod MarkLaws
pub mod MemoryLaws
pub mod Orders
pub mod PermissionLaws
pub mod Steps
