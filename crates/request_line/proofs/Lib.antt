pub mod Lines
pub mod Laid
pub mod Unique
