pub mod Parts
pub mod Points
