pub mod Lines
pub mod Dumps
pub mod Parts
pub mod Text
pub mod Printed
