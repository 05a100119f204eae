pub mod Places
pub mod Replacing
