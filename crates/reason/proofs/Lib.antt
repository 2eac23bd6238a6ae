pub mod Steps
pub mod Unique
pub mod TrueReasons
