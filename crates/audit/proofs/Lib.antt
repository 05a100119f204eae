pub mod Sole
pub mod Lawful
