pub mod Places
pub mod Rows
pub mod Written
