pub mod Bits
pub mod Records
pub mod Rounds
pub mod Unique
