pub mod Lawful
pub mod Reads
pub mod Numbers
pub mod Edits
pub mod Held
