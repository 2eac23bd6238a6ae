pub mod Mode
pub mod Part
pub mod Writing
pub mod Rewriting
pub mod Calls
pub mod Joined
