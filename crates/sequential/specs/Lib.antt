pub mod Tree
pub mod Balanced
pub mod Levels
pub mod Insert
pub mod Delete
pub mod Proper
