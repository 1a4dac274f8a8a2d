pub mod Adding
pub mod Groups
pub mod Homes
