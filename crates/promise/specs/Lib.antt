pub mod Run
pub mod Demands
pub mod Starts
