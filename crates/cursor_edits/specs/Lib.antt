pub mod Places
pub mod Replaced
