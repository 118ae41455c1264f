pub mod Commands
pub mod Taken
