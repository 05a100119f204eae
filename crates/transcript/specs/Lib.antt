pub mod Carried
pub mod Walks
