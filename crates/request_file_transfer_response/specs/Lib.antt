pub mod Layout
pub mod Reading
pub mod BlockLength
pub mod Writing
pub mod Same
