pub mod Split
pub mod Calls
