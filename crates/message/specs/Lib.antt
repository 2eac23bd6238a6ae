pub mod Service
pub mod Reading
pub mod Writing
