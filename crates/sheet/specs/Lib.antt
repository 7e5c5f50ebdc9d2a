pub mod Fronts
pub mod Papers
pub mod Readings
pub mod Sheets
