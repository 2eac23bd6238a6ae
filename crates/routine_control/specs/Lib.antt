pub mod SubFunction
pub mod ThreeBytes
pub mod Request
pub mod Response
