pub mod Joining
pub mod Meeting
pub mod Needs
pub mod Parts
