pub mod Assigned
pub mod Local
