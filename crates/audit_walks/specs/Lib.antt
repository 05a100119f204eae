pub mod Marks
pub mod Met
