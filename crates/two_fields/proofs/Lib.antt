pub mod Agreements
pub mod Places
