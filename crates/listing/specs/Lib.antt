pub mod Listing
pub mod Records
pub mod Index
pub mod Searchable
pub mod Handed
pub mod Changes
