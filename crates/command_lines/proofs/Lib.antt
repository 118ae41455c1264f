pub mod Cut
pub mod Cuts
