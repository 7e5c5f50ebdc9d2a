pub mod Fillings
