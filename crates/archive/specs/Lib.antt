pub mod Sheets
pub mod Replays
pub mod Why
pub mod Batches
pub mod Joined
pub mod Messages
