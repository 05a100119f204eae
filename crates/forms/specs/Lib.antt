pub mod Args
pub mod Forms
