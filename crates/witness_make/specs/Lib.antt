pub mod Clip
pub mod Made
pub mod Turns
