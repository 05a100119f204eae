pub mod Refusals
pub mod Questions
pub mod Rules
pub mod Text
