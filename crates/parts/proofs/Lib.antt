pub mod Flats
pub mod Handing
pub mod Laws
pub mod Vectors
pub mod Unique
