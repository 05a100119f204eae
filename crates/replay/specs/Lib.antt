pub mod Histories
pub mod Runs
