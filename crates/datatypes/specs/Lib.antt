pub mod Refusals
pub mod Side
