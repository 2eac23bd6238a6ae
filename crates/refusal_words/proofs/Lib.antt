pub mod Words
pub mod Vectors
pub mod Unique
