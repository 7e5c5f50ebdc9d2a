pub mod Calls
pub mod Commands
pub mod Counts
pub mod Rules
pub mod Slots
pub mod Traces
