pub mod Encodings
pub mod Errors
pub mod Hexadecimal
pub mod Samples
pub mod Words
