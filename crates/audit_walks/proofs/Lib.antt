pub mod Links
pub mod Marking
pub mod Going
pub mod Runs
