pub mod Cut
pub mod Examples
pub mod Machine
