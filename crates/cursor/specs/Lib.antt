pub mod Words
pub mod SourceLocs
pub mod Kinds
pub mod Positions
