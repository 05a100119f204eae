pub mod Renumbering
pub mod Tails
pub mod Turns
pub mod Pushes
pub mod Placing
