pub mod Grown
pub mod Unique
