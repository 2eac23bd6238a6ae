pub mod Reading
pub mod Turns
pub mod Writing
pub mod Comparing
pub mod Compared
pub mod Calls
pub mod Unique
