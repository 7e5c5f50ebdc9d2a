pub mod Commands
pub mod Entries
pub mod Names
pub mod Refusals
