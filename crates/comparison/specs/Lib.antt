pub mod Compared
pub mod Numbering
pub mod Ranking
pub mod Reached
pub mod Scripts
pub mod Text
