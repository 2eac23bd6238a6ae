pub mod LineRows
pub mod Texts
pub mod Turns
pub mod Exported
pub mod Imported
pub mod Unique
pub mod Calls
pub mod Rows
