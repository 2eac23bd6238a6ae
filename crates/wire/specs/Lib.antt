pub mod Refusals
pub mod Size
pub mod Prefix
pub mod Reading
pub mod Number
pub mod Group
pub mod Place
pub mod Writing
