pub mod Pieces
pub mod Fills
pub mod Splits
pub mod Unique
pub mod Calls
