pub mod Turns
pub mod Stores
pub mod Cells
pub mod Unique
pub mod Tables
