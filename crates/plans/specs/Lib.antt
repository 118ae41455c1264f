pub mod Planned
pub mod Pushed
