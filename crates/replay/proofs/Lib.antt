pub mod Rows
pub mod Runs
pub mod Unique
pub mod History
