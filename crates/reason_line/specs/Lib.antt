pub mod Sort
pub mod Text
