pub mod Moved
pub mod Published
