pub mod Names
pub mod Scripts
pub mod Text
