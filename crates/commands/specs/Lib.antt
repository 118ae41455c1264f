pub mod Examples
pub mod Performed
