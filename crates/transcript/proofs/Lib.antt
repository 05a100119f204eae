pub mod Back
pub mod InTurn
pub mod Known
pub mod Slots
