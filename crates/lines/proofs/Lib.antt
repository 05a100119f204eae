pub mod Dots
pub mod FirstWords
