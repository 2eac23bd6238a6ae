pub mod Drawn
pub mod Lines
pub mod Unique
