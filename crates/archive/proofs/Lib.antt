pub mod Sheets
pub mod Stepped
pub mod Splits
pub mod Whole
pub mod Unique
