pub mod Replay
pub mod Run
