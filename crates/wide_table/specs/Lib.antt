pub mod WideRecords
pub mod Table
