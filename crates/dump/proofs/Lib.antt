pub mod Named
pub mod Rows
pub mod Injective
pub mod Begun
pub mod Spelled
pub mod Back
