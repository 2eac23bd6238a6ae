pub mod Layout
pub mod Name
pub mod Reading
pub mod Writing
pub mod Same
