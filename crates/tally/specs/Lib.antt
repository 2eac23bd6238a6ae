pub mod Judged
pub mod Calls
pub mod Sheet
