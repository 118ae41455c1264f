pub mod Column
pub mod Digits
pub mod Fields
pub mod Put
