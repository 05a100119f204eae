pub mod Put
pub mod Removal
