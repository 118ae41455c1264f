pub mod Page
pub mod Examples
pub mod Sheets
pub mod Exact
