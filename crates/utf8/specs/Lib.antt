pub mod Valid
pub mod Ascii
pub mod Character
pub mod Fit
pub mod LeadBytes
