pub mod Lists
pub mod Inserted
pub mod Kept
pub mod Accepted
pub mod Positions
pub mod Edits
pub mod Led
pub mod Refused
