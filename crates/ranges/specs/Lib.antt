pub mod Fits
pub mod Stores
pub mod Writes
pub mod Plans
pub mod Kept
pub mod Calls
pub mod Records
pub mod Tests
