pub mod Numbers
pub mod Turns
pub mod Unique
pub mod EntryForEntry
