pub mod Accounts
pub mod Branches
pub mod Effects
pub mod Limits
pub mod Sizes
