pub mod Counts
pub mod Tallies
