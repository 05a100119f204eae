pub mod Made
pub mod Scripts
pub mod Walked
