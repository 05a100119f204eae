pub mod Numbering
pub mod Closing
