pub mod Deletes
pub mod Pushed
