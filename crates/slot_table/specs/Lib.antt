pub mod Slots
pub mod Table
