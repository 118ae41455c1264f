pub mod Ascii
pub mod Column
pub mod Decimal
pub mod Line
pub mod Put
