pub mod Rules
pub mod Breaches
pub mod Tables
