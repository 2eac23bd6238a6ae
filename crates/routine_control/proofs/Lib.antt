pub mod Codes
pub mod Cases
pub mod Laid
pub mod Rounds
pub mod Unique
