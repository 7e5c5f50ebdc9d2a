pub mod Cases
pub mod Effects
pub mod Tallies
pub mod Whole
pub mod Working
