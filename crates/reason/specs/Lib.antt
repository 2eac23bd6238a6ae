pub mod Reason
pub mod Step
pub mod Calls
