pub mod Listed
pub mod Large
pub mod Ranks
pub mod Order
pub mod Laws
pub mod Placing
