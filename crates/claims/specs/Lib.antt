pub mod Computed
pub mod Claims
pub mod Lists
