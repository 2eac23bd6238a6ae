pub mod Lengths
pub mod Rewrites
pub mod UniqueRewriting
pub mod Calls
pub mod Demand
pub mod Longest
pub mod Unique
pub mod Joined
