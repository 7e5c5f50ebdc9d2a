pub mod Histories
pub mod Runs
pub mod Steps
