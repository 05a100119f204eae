pub mod Splitting
pub mod Emptying
