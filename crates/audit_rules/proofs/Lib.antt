pub mod Lists
pub mod Turns
pub mod Meeting
pub mod Climbing
pub mod Nexts
pub mod Finding
