pub mod CodeText
pub mod Lines
