pub mod Subs
pub mod TwoSubs
pub mod Unique
