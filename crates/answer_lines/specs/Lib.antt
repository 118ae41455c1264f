pub mod Examples
pub mod PutLine
pub mod Text
