pub mod Flats
pub mod Written
pub mod Transfers
pub mod Routines
pub mod Codes
pub mod Unique
