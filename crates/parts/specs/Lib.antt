pub mod Records
pub mod Flat
pub mod Handed
