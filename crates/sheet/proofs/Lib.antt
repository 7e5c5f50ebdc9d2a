pub mod Fronts
pub mod Prints
pub mod Readings
