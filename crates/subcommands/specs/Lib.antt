pub mod Compared
pub mod Contrasts
pub mod Judged
pub mod Obeyed
pub mod Runs
