pub mod Refusals
pub mod Text
pub mod Questions
pub mod Moves
pub mod Edits
