pub mod Numerals
pub mod Prefixes
pub mod Splits
pub mod Rows
