pub mod Airs
pub mod Declining
pub mod Promises
pub mod Sends
