pub mod Links
pub mod Table
pub mod Chain
