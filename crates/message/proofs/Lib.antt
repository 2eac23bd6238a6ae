pub mod Codes
pub mod Behind
pub mod Led
pub mod Unique
