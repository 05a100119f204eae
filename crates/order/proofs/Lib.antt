pub mod Asking
pub mod Lines
pub mod Points
pub mod OneOrder
pub mod Bare
pub mod Alike
pub mod Comparing
pub mod Same
