pub mod Listings
pub mod Changes
