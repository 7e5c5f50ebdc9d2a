pub mod Check
pub mod Standard
