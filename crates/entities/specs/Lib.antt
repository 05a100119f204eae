pub mod Nodes
pub mod Lists
pub mod Program
pub mod Points
pub mod Reading
pub mod Numbering
pub mod Laws
